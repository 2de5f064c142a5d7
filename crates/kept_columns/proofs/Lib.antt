pub mod KeptColumns
