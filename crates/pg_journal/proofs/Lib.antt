pub mod OneJournal
