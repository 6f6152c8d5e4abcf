pub mod NoOrders
