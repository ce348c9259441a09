pub mod WholeImage
