-- What the contracts of this crate cite.
pub mod Views
pub mod States
pub mod Refusals
pub mod PanelCalls
pub mod Pictures
