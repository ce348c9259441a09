mod Best
mod First
mod Listed
