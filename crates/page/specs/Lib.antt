-- What is written into a page: numbers as bytes, and the page.
pub mod Numbers
pub mod Page
