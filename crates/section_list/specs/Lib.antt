pub mod SectionList
