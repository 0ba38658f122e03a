mod Returning
mod Texts
mod Writing
mod Feeds
mod Pieces
mod Coming
