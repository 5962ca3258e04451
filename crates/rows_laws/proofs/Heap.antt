pub mod Slots
pub mod OpenSlot
pub mod Sifting
pub mod StaysHeap
pub mod Scheduling
pub mod FutureEvents
