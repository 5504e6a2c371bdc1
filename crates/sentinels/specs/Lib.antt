-- One line of a node, read where it lies; a slice whose words are set node by node.
pub mod Lines
pub mod Anew
