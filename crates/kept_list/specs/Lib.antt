pub mod KeptList
