pub mod Escaped
pub mod Label
pub mod Scale
pub mod Shapes
pub mod Svg
