mod Hex
mod Cases
mod Pieces
