mod Going
pub mod Here
pub mod Ends
pub mod Pieces
pub mod Has
pub mod Begins
mod Moving
pub mod Leaves
pub mod Intends
mod Handlers
mod Entering
mod Calls
mod Unmade
mod HouseUnmade
mod Makers
pub mod Effects
pub mod Joined
pub mod NamesSay
pub mod StoreSays
mod EndsSay
pub mod EnterSays
mod Mails
mod Saying
mod Walking
mod Parting
mod Raising
mod Behind
mod Received
mod FineCalls
mod Forward
mod Sends
mod Spoken
mod Named
pub mod Current
pub mod Alone
mod Given
mod Gone
mod ByeKeys
mod ByeLosses
mod ByeCalls
pub mod ByeEvents
pub mod Owing
mod Went
