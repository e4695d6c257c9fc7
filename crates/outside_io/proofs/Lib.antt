mod Pieces
mod Names
