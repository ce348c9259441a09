pub mod PageMap
