pub mod Below
pub mod Can
pub mod Changes
pub mod CommandFaults
pub mod Asking
pub mod Costs
pub mod Counted
pub mod LineParts
pub mod ToolParts
pub mod FirstPart
pub mod Gains
pub mod Headline
pub mod Index
pub mod Laws
pub mod May
pub mod Runs
pub mod Sessions
pub mod Setups
pub mod ToolLines
pub mod Tools
pub mod Units
pub mod Who
pub mod Why
-- the public surface: the program names these definitions by this crate
pub use Rattle.acl_rights.specs as acl_rights
pub use Rattle.facl_output.specs as facl_output
