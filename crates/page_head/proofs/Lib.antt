pub mod PutParts
