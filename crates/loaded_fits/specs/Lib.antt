-- what is loaded is sound, and its start configuration is accepted
pub mod LoadedFits
