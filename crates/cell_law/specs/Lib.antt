pub mod Quad
