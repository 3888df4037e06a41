pub mod Best
pub mod Local
pub mod Trees
pub mod Calls
pub mod Laws
pub mod Waiting
pub mod UnderWay
