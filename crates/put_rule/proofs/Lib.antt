-- Laws of the put rule.
pub mod PutRows
pub mod GridRows
pub mod WholeRows
