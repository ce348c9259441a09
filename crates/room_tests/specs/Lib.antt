pub mod SmallChannel
pub mod OpenLooks
