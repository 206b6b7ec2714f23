pub mod Assuming
mod Bodies
mod Ending
pub mod Evenness
mod Expecting
mod GivenLines
mod Judging
pub mod Lists
mod Loose
pub mod Numbers
pub mod Reaching
mod Reading
mod Replacing
mod RowJudging
mod RowParting
mod Rowless
mod RowlessReaching
mod RowlessSteps
mod RowlessTrees
pub mod Rows
mod Standing
mod Stepping
mod Telling
mod Tested
mod Turning
mod Walking
