pub mod IdleReasons
pub mod Origins
pub mod Settings
pub mod Steps
