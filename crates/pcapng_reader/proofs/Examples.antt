-- The blocks that are written out by hand are read.
use Rattle.std.proofs.Common.{true, false, ◌++◌, length-append, refl, arith}
use Rattle.pcapng_reader.specs.declared.content.Content.TheVariants as content
use Rattle.pcapng_reader.specs.Numbers.{u16_at, u32_at}
use Rattle.pcapng_reader.specs.Contents.{ethernet_of, framed, enhanced, simple, content_at}
use Rattle.pcapng_reader.specs.Blocks.{order_of}
use Rattle.pcapng_reader.specs.Examples.{big_section, little_section, example_place}
use Rattle.pcapng_reader.specs.Examples.{enhanced_example, enhanced_packet, simple_example}
use Rattle.pcapng_reader.specs.Examples.{simple_packet}
use Rattle.pcapng_reader.specs.Laws.{ReadsExamples}
use Rattle.pcapng_reader.proofs.Written.{block_is}

pub reads_examples : ReadsExamples
unfolding order_of content_at enhanced simple framed ethernet_of u32_at u16_at
reads_examples more =
    let long = length-append enhanced_example more in
    let short = length-append simple_example more in (
      block_is big_section example_place (enhanced_example ++ more) true 52 6
          (content.Packet enhanced_packet) (omega (arith, long)) (omega (arith, long))
          refl refl refl refl refl refl,
      block_is little_section example_place (simple_example ++ more) false 24 3
          (content.Packet simple_packet) (omega (arith, short)) (omega (arith, short))
          refl refl refl refl refl refl,
    )
