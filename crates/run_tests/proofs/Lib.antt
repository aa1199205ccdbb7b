pub mod OwnNames
pub mod RoomLemmas
