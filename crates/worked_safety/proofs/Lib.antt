mod Formed
mod Counter
mod Chain
mod Verified
