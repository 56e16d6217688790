pub mod BlockTrees
pub mod Strips
