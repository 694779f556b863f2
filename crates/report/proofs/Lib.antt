mod Nearest
mod Sizes
