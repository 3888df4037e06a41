pub mod Dues
pub mod Holders
pub mod Queue
pub mod RootStorage
pub mod Roots
pub mod Vertex
pub mod VertexStorage
