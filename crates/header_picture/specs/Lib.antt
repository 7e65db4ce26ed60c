pub mod Picture
pub mod Key
pub mod IntraOnly
