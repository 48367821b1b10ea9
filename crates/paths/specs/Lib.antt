pub mod PathOrders
pub mod PathLaws
pub mod BusAddresses
pub mod Latches
