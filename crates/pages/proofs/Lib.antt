-- Laws of a page, and of pages one behind another.
pub mod OneLine
pub mod Paging
pub mod PageAfterPage
