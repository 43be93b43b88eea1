pub mod ShapedPipes
