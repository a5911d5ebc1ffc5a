pub mod ViewLaws
pub mod ScriptLaws
pub mod StreamLaws
pub mod SessionLaws
pub mod JournalLaws
pub mod CallerLaws
