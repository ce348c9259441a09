mod Freshest
mod Kept
mod Next
mod Places
