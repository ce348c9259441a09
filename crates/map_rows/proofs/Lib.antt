mod FirstLive
mod Least
mod Owners
mod Setting
