pub mod Listed
pub mod Modes
pub mod RoundTrips
pub mod SameEntries
pub mod StillThere
pub mod TextWordLemmas
