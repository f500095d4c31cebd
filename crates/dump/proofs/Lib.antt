pub mod PduLines
pub mod Letters
