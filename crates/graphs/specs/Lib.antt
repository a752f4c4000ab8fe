-- What a graph is, in the order of reading: words on numbers and lists, graphs and walks, lassos, and the words of a graph.
pub mod Lists
pub mod Graph
pub mod Lasso
pub mod Words
pub mod Stamps
