pub mod Related
