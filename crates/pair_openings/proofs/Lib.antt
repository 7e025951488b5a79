pub mod Cutting
pub mod Loading
pub mod Deciding
pub mod Answering
pub mod Following
pub mod RoomMade
