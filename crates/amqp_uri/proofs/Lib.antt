pub mod Numerals
pub mod PairByPair
