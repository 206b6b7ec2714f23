pub mod Grammar
pub mod Readback
pub mod TermReadback
pub mod CompoundReadback
pub mod LinearReadback
pub mod ClauseReadback
pub mod TermFitting
pub mod Fitting
