-- The capture of a file, by the format that its first four bytes choose.
pub use Rattle.capture_stream.specs.Captures.{HasAnyCapture}
