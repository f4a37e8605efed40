-- How the parts of a model are held in words.
pub mod Outline
