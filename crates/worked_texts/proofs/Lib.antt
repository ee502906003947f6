mod Objects
mod Arrays
mod Threads
mod Witnesses
mod Longest
mod Bytes
