pub mod Order
pub mod Using
pub mod Layers
pub mod StatementLayers
pub mod FirstStarts
pub mod Worked
pub mod Inversion
pub mod Making
