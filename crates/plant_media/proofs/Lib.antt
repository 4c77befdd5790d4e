mod Calling
mod Keeping
mod Lifting
mod Showing
