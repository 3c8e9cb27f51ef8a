pub mod Dropper
pub mod DropperAllCalls
pub mod DropperMeaning
pub mod DropperTrace
pub mod Mover
pub mod MoverAllCalls
pub mod MoverMeaning
pub mod MoverTrace
