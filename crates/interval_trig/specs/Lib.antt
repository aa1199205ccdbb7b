pub mod NestedSums
