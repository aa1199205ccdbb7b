pub mod SpareLemmas
