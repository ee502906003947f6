pub mod Tokens
pub mod TokensObjects
pub mod TokensArrays
pub mod TokensThreads
pub mod Readings
pub mod Bytes
pub mod TokensWitnesses
