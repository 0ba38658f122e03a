mod Pieces
mod Passing
