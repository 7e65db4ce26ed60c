pub mod SizeWithRefs
