-- One piece and one frame more (`side`).
pub mod Pieces
